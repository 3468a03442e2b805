mod EndedLines
mod Telling
mod Traces
mod Written
