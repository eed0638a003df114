mod DeviceLemmas
mod Guarding
mod Kept
mod Moments
mod Recovering
mod Resting
mod Restoring
mod Sessions
