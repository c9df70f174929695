mod Least
mod Passing
