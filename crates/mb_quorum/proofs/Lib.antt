mod Disjoint
mod Masks
mod LeastWidth
mod Sets
mod SetOrder
