mod Lists
mod Keeps
mod Seating
