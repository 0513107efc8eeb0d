mod LaneLemmas
