-- What is said of the conditions of certificates and of stores.
use Rattle.std.specs.Prelude.{ℕ, List, [], ◌∷◌, codes}

-- when each holds, for the conditions from 1 on
abbrev pub condition_texts : List (List ℕ)
condition_texts =
    codes "each list has the length that the program calls for, each index names a thing, and polynomials use only their variables"
    ∷ codes "no operation on polynomials passes its limit, and no system has more than 128 rows"
    ∷ codes "the source that a leaf names is an instance: its loop values are within their bounds"
    ∷ codes "the source that a leaf names writes the array that is read, and the cell"
    ∷ codes "the source comes before the reader, at its level"
    ∷ codes "no write of the cell lies between the source and the reader, or none at all is earlier"
    ∷ codes "an empty leaf has no point: its tests contradict the domain of the reader"
    ∷ codes "each range of a nest is whole: `upper - lower + 1` is at least 0 wherever the variables before it are"
    ∷ codes "each sum's difference in its variable is what the variables behind it count, so the last is the number of points"
    ∷ codes "the points are instances: their loop values are within the bounds of the statement's loops"
    ∷ codes "the read is of an input at each point: each leaf of the read's tree is one without an earlier write, or has no point"
    ∷ codes "different points have different words or images: the matrix times the coefficients of the variables is the scale times the identity"
    ∷ codes "the start label fixes what its set says: the coefficients of the loops are the scale times the rows of `matrix` in the set"
    ∷ codes "the word at the other end of a step has the label of the reader"
    ∷ codes "at each leaf a walk ends at an input or at a credited nest, or goes on in a region of the source, or has no point"
    ∷ codes "`inverse` times `matrix` is the identity"
    ∷ codes "each coordinate is fixed by sets whose weights are q or more together"
    ∷ codes "no two families have a word in common: in shape \"sum\" all families, in a joint term those of different groups"
    ∷ codes "the word is what the user reads: at each leaf the source that is named, or an input where none is, or there is no point"
    ∷ codes "a walk from the vertex arrives at the source"
    ∷ codes "a walk from the user arrives at the vertex"
    ∷ codes "the vertex depends on the outer variables alone"
    ∷ codes "no two terms of a branch, or outputs of stores, have a word in common"
    ∷ codes "no later instance writes the cell of an output of stores"
    ∷ codes "points of two parts of a joint term have different images: no point of both meets the rows at an end of their split"
    ∷ []

-- what a place of its failure names, for the conditions from 1 on
abbrev pub condition_places : List (List ℕ)
condition_places =
    codes "the value that is wrong, the first on a walk through the text"
    ∷ codes "the polynomial, or the multipliers whose system is too long"
    ∷ codes "`domain/i`: two for each loop of the source, the lower bound and then the upper"
    ∷ codes "`statement`, or `cell/i`: two for each subscript, one for each direction of the equation"
    ∷ codes "`before/i`: two for each loop that is equal, and one for the next"
    ∷ codes "`between/i` or `input/i`: one for each statement that writes the array and each level at which it could come"
    ∷ codes "`empty`"
    ∷ codes "`shown/k`, of the nest's k-th variable"
    ∷ codes "`sums/k`, of the nest's k-th variable"
    ∷ codes "`inside/i`: two for each loop, the lower bound and then the upper"
    ∷ codes "`leaves/i`, of the i-th leaf that isn't empty, `yes` before `no`"
    ∷ codes "`inverse/matrix/row/column`"
    ∷ codes "`start/label/i`"
    ∷ codes "`label/i` or `stop/i`: two for each member of the set, or the leaf where the word has no label"
    ∷ codes "the leaf, `rows/i`, or `empty`"
    ∷ codes "`inverse/row/column`"
    ∷ codes "`matrix/coordinate`; `parts/0/map/coordinate` in a joint term"
    ∷ codes "`apart/i`, one for each pair of pieces of two such families"
    ∷ codes "`edge/i`, of the i-th leaf that isn't empty"
    ∷ codes "in `reach`"
    ∷ codes "in `back`"
    ∷ codes "`vertex/point/i`, the form that has another variable"
    ∷ codes "`disjoint/i`, one for each pair of pieces of two terms; `apart/i` in stores"
    ∷ codes "`later/i`: one for each statement that writes the array and each level at which it could come"
    ∷ codes "`distinct/i`, one for each pair of parts, then `yes` or `no` for each test on the way, then `empty`"
    ∷ []
