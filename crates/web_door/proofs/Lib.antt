mod Fronts
mod Whole
