pub mod EventLemmas
pub mod ReceiveLemmas
pub mod RepeatLemmas
pub mod PlayLemmas
pub mod LastLemmas
pub mod RunLemmas
pub mod SizeLemmas
pub mod ProperScreens
pub mod BetweenLemmas
pub mod LimitsLemmas
pub mod ShownLemmas
pub mod WriteLemmas
pub mod RowTexts
pub mod FormLists
pub mod ShortLists
pub mod RefusedWrites
pub mod RenewLemmas
pub mod CopyLemmas
pub mod DeferringLemmas
pub mod VisibleCopies
mod LendTwo
mod ParserParts
