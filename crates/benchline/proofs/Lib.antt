mod Texts
mod Lines
mod Figures
