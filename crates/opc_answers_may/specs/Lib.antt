pub mod Changes
pub mod Commands
pub mod Logons
pub mod May
pub mod MayJson
pub mod MayLaws
pub mod MayTexts
