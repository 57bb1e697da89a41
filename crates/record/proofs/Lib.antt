-- What writes and prints put behind the bytes of a writer.
mod Prints
