pub mod Extending
mod Wanting
mod Closings
mod Withholding
