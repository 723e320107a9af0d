-- Numbers: a message as its tag and its numbers, and the calls by them. Steps: what the private functions say to each other.
pub mod Numbers
pub mod Steps
