mod Cases
mod Numbers
