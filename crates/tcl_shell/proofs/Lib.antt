mod JoinedNewlines
mod TakenLines
mod LinesLemmas
mod ProgramLemmas
mod Sessions
mod Writes
