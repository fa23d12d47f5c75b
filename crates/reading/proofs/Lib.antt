mod Filled
mod Number
