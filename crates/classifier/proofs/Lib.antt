mod BaseEntries
mod Segments
mod Cuts
mod Walk
