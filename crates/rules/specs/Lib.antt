-- The rules, in the order in which to read them.

-- one of a kind for each channel
pub mod Triples
-- choosing by a test
pub mod Choice
-- fractions, their order, and comparing with a power
pub mod Fraction
-- the causes of refusal and their numbers; one check after another
pub mod Refusal
-- what a call gives: number, index, values
pub mod Result
-- the curves, as formulas with exact decimals
pub mod Curve
-- the settings there are, their checks, their codes
pub mod Setting
-- a fraction compared with the exact value at a step
pub mod Exact
-- what a decoded number is
pub mod Decoding
-- the code of a scene number
pub mod Encoding
-- the matrices, and ACES numbers
pub mod Matrix
-- the matrix row of three exact values
pub mod ExactRow
-- a pixel, and the ACES numbers that it gives
pub mod Pixels
-- the pixel that gives three ACES numbers
pub mod WayBack
-- graded ACES numbers: their check, and what is asked of their scene numbers
pub mod Graded
-- records as bytes, and what they hold
pub mod Record
-- halves: the value of one, reading, writing, the nearest
pub mod Half
-- strips: the answer and the output of any conversion
pub mod Strip
-- the conversions
pub mod Conversions
-- a reel and the sums of its scene numbers: calls, checks, what is kept
pub mod Reel
-- floats: exact values, checks, the nearest unit
pub mod Float
-- what the calls on one code, number, pixel or record give
pub mod Calls
-- decimal digits as text
pub mod Decimal
-- what the lister prints
pub mod Lister
