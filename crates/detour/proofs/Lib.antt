mod Chains
mod Picked
mod Trying
mod Tracing
mod Refusing
mod Passing
