-- In the order of use.
pub mod Checked
pub mod Making
pub mod Leading
pub mod Newest
pub mod Boxes
pub mod Taking
pub mod Coming
pub mod History
pub mod Alike
pub mod Shown
pub mod Beside
pub mod Night
