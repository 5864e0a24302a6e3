mod OneGround
mod OneVerdict
