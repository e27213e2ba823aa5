mod LenientLemmas
