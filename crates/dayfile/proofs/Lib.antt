mod Runs
mod Taking
mod Puts
