mod Attained
mod EasyStarts
mod Costing
