mod Parts
mod Records
mod NameText
