pub mod WorkedEdges
pub mod WorkedReports
pub mod Lists
pub mod Parts
pub mod Split
pub mod Steps
pub mod Sound
pub mod Merged
pub mod Kept
pub mod Shuffled
pub mod Decided
pub mod Touching
pub mod Numbers
pub mod Depth
pub mod ByQueue
pub mod StateReaders
pub mod RecordReaders
pub mod Runs
pub mod Longest
pub mod Widths
pub mod StateCodes
pub mod Restarts
mod FromCheckpoints
pub mod Tails
pub mod Found
pub mod Upgraded
pub mod Closed
pub mod Texts
pub mod WellFormedRuns
pub mod Apart
pub mod GoesWell
mod Balance
mod Tried
mod Origins
mod Clients
mod Meaning
mod Taken
mod Accounts
mod ReportLines
mod ToldClients
mod Marked
mod Appended
mod Carried
mod CarriedFiles
mod FilesTogether
mod OneEnd
mod Along
pub mod StepParts
pub mod UnitEnds
pub mod ChosenOps
