use Rattle.interleavings.proofs.laws.journals_of_files_are_first_in_first_out.Goals as goal

-- the system of a file is lawful
pub returns : goal.returns
returns c = λ hash content base callers journal file legal.
    c.journals_are_first_in_first_out.ensures callers journal base legal.0 file.system.has.lawful legal.1
