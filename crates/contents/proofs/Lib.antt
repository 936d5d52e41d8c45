mod Files
mod LookedAt
mod Unseen
