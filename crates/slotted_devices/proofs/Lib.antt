pub mod SeenSlots
