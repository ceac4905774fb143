mod Counting
mod Settled
