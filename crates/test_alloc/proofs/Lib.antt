mod Imports
mod Statements
mod Contracts
mod Walking
mod Books
