mod Safety
mod Answers
mod OneJudgement
