mod Carrying
mod Runs
