mod Steps
mod Walks
