mod Packing
mod Going
mod Laws
mod Whole
mod Lines
mod Buffers
mod Hearing
