-- How a loop over lent records stores its answers.
mod Filling
