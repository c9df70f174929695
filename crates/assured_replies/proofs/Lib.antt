mod Spelled
mod Places
mod Trails
mod Owed
mod Calls
mod WorkedRun
mod Accepted
