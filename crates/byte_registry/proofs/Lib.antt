mod Asking
mod Generations
mod Syncs
mod Updates
mod Upgrades
mod Steps
