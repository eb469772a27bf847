mod Clashes
mod Legal
mod Listed
