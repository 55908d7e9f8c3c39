mod Commas
mod Lengths
