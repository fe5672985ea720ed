mod SeatParts
mod Flags
mod Known
