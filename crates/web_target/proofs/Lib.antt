mod Ordered
mod Splits
