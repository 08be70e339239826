-- What the functions of `page` leave; and that a path list has room for the roads of an answer.
pub mod Page
pub mod Room
