-- What the line program prints for its input, whole and in pieces (document 01, "Line program").
pub mod Stream
pub mod StreamLaws
pub mod FeedLaws
pub mod PassLaws
