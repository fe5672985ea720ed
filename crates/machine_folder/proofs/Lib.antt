mod Joining
mod TooLong
