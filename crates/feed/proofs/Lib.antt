mod Fronts
mod Known
mod Shows
