pub mod Steering
