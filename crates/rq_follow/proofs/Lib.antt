mod Frames
mod Windows
mod Beginnings
mod Fronts
mod Told
