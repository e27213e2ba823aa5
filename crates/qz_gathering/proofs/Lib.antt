mod Closing
mod Fresh
mod Marking
mod Missing
