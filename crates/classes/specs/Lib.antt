-- Reading order: Classes and Told, which the public call cites; then, for the functions inside, Table, Numbers, Least, Find.
pub mod Classes
pub mod Told
pub mod Table
pub mod Numbers
pub mod Least
pub mod Find
