mod PacketAgain
mod PlainMaps
pub mod Tlvs
pub mod Made
mod Cases
mod OnSides
mod RequestKinds
mod GoodUploads
mod DueSteps
mod Pending
mod Marks
mod Saves
mod Requests
mod Replies
mod UploadLaws
mod Covers
mod Consistency
mod Refusals
mod Starts
mod OneImage
mod FirstSlot
mod Unnamed
mod Lifts
mod MatchTold
mod PacketTexts
mod HandledDevices
mod Keeping
mod DropsDue
mod FlashUses
mod EarlyTargets
mod AskedMarks
mod StoredForms
mod NamedThings
pub mod ImageAreas
pub mod ImageHeaders
pub mod ImageTests
pub mod ImageReads
pub mod ImageParts
pub mod ImageGood
