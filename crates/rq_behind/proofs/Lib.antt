mod Advances
mod Changed
mod Ends
mod Files
mod Proved
mod Scanned
mod Sound
