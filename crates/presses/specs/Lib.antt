-- Double presses on the tablet (document 02, Ask 4) in lists of calls.
pub mod Presses
pub mod BytesKeptLaws
pub mod OnePressLaws
pub mod PressesLaws
pub mod StrikingExample
