mod Among
mod Answers
