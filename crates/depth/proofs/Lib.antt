mod Settled
mod Descending
mod Turns
