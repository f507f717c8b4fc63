mod BuiltLaws
mod ChoiceLaws
mod ServerLaws
