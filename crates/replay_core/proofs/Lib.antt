mod Telling
mod Alike
